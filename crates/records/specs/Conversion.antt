-- The conversions, packing (plain to packed) and unpacking (packed to plain): a record and an output, refusals 13, 5, 10, 11, then 14 (02, C-11). The key
-- number is kept (02, C-13), as all of the signature is.
use Rattle.std.specs.Prelude.{List, ℕ, Err}
use Rattle.answers.specs.declared.Refusal.TheVariants.{HeaderMalformed}
use Rattle.answers.specs.Outcomes.{Filled, filled}
use Rattle.record_forms.specs.declared.Form.{Form}
use Rattle.record_forms.specs.Headers.{header_in, opened}
use Rattle.records.specs.Signatures.{signature_in}
use Rattle.records.specs.Writer.{recorded_to}

-- a record of one form as one of another: the header's test is that of the form it comes in
unfoldable pub conversion_of : Form → Form → List ℕ → List ℕ → Filled
conversion_of from to rec out =
    opened (header_in from rec) (λ place. filled (Err (HeaderMalformed place)) out)
    (λ s. recorded_to to (signature_in from s rec) out)
