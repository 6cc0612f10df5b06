-- 02, C-11: the numbers of the packed record. Assumes nothing.
use mathlib.Core.Path.{refl}
use lib.Dec.{lit<, lit≤}
use Rattle.sets.specs.declared.Set.TheVariants.{I, IV}
use Rattle.sets.proofs.Alike.{largest_below_4096, largest_dagger}
use Rattle.record_forms.proofs.Forms.{record_limit}
use Rattle.promises.specs.Packed.{PackedForm}

pub packed_form : PackedForm
packed_form = record {
  offsets = refl;
  totals = refl;
  longest = record_limit;
  z1_fits = largest_below_4096;
  z1_fewest = (I, lit≤ tt);
  z2_fits = largest_dagger;
  z2_fewest = (IV, lit≤ tt);
  list_fits = lit≤ tt;
  list_fewest = lit< tt;
}
