use native.Mathlib.Omega.{arith}
use Rattle.record_forms.specs.declared.Form.TheVariants.{Plain}
use Rattle.record_forms.proofs.Stated.{stated}
use Rattle.record_forms.proofs.sections.list_section.Goals as goal

pub section-requires : goal.section-requires
section-requires c s e = let total = (stated Plain _ e).total in omega arith
