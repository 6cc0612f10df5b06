use mathlib.Core.Path.{◌≡◌}
use mathlib.Core.List.{List, ◌++◌}
use Prim.Native.Nat.{ℕ, ◌≤◌, ◌<◌}
use lib.IntN.{ℤ}
use lib.ListN.{length, drop}
use Rattle.sets.specs.declared.Set.{Set}
use Rattle.std.specs.Prelude.{Err}
use Rattle.answers.specs.declared.Refusal.TheVariants.{OutputShort}
use Rattle.answers.specs.Outcomes.{Done, filled}
use Rattle.record_forms.specs.declared.Form.{Form}
use Rattle.record_forms.specs.Forms.{total_of}
use Rattle.record_forms.proofs.Ways.{calls, long_enough}
use Rattle.records.specs.Signatures.{signature, record_of}
use Rattle.records.specs.Writer.{put_to}
use Rattle.records.proofs.Buffers.{written_at}
use Rattle.records.proofs.Lent.put.Goals as goal

module _ (form : Form) (s : Set) (key : ℕ) (z1 z2 : List ℤ) (list out : List ℕ) (total : ℕ) (k : total ≡ total_of form s) where
  short : length out < total → filled (Err OutputShort) out ≡ put_to form (signature s key z1 z2 list) out
  unfolding put_to
  short l = search calls depth 9

  written : total ≤ length out → (now : List ℕ) → now ≡ record_of form (signature s key z1 z2 list) ++ drop (total_of form s) out → filled Done now ≡ put_to form (signature s key z1 z2 list) out
  unfolding put_to
  written l now w = search (long_enough, written_at) depth 9

pub returns-then-out-total : goal.returns-then-out-total
returns-then-out-total c = search short

pub returns : goal.returns
returns c = search written
