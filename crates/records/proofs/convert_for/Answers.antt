use mathlib.Core.Path.{◌≡◌}
use mathlib.Core.List.{List}
use Prim.Native.Nat.{ℕ}
use Rattle.sets.specs.declared.Set.{Set}
use Rattle.answers.specs.Outcomes.{Outcome, filled}
use Rattle.record_forms.specs.declared.Form.{Form}
use Rattle.records.specs.Signatures.{signature_in}
use Rattle.records.specs.Writer.{recorded_to}
use Rattle.records.proofs.convert_for.Goals as goal

module _ (from told to : Form) (s : Set) (rec : List ℕ) (e : from ≡ told) where
  told_records : (out : List ℕ) (o : Outcome) (now : List ℕ) → filled o now ≡ recorded_to to (signature_in told s rec) out → filled o now ≡ recorded_to to (signature_in from s rec) out
  told_records out o now h = rw e h

pub returns-in-Plain : goal.returns-in-Plain
returns-in-Plain c = search told_records

pub returns-in-Packed : goal.returns-in-Packed
returns-in-Packed c = search told_records
