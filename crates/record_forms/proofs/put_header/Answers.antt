use Rattle.record_forms.proofs.Pieces.{header_pieces}
use Rattle.record_forms.proofs.put_header.Goals as goal

pub returns : goal.returns
returns c = search header_pieces
