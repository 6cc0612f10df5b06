-- The points of upper digits that 01, "Reference points", marks to be proved, as one table. Assumes nothing.
use mathlib.Core.Path.{◌≡◌, refl}
use mathlib.Core.List.{[], ◌∷◌, map}
use Rattle.sets.specs.declared.Set.TheVariants.{I, II, III, IV}
use lib.IntN.{pos}
use Rattle.laws.specs.Integers.{residue}
use Rattle.rounding.specs.Rounding.{quotient, upper, summed}

-- d = 10: 511 gives 0, 512 gives 1, 24063 gives 23, 24064 and 24577 give 0; d = 9: 255, 256, 24319, 24320 give 0, 1, 47, 0; d = 8: 127, 128, 24447,
-- 24448 give 0, 1, 95, 0
pub reference_points :
    (map (upper I) (511 ∷ 512 ∷ 24063 ∷ 24064 ∷ 24577 ∷ []) ≡ 0 ∷ 1 ∷ 23 ∷ 0 ∷ 0 ∷ [])
    × (map (upper II) (511 ∷ 512 ∷ 24063 ∷ 24064 ∷ 24577 ∷ []) ≡ 0 ∷ 1 ∷ 23 ∷ 0 ∷ 0 ∷ [])
    × (map (upper III) (255 ∷ 256 ∷ 24319 ∷ 24320 ∷ []) ≡ 0 ∷ 1 ∷ 47 ∷ 0 ∷ [])
    × (map (upper IV) (127 ∷ 128 ∷ 24447 ∷ 24448 ∷ []) ≡ 0 ∷ 1 ∷ 95 ∷ 0 ∷ [])
unfolding upper quotient
reference_points = (refl, refl, refl, refl)

-- t = 2 and y = 513: 25,089 reduces to 511, upper digits 0; rounded first it gives 1 (01, "Ways it has been got wrong")
pub reduced_first : (summed 2 (pos 513) ≡ 511) × (upper I (summed 2 (pos 513)) ≡ 0) × (upper I 25089 ≡ 1)
unfolding upper quotient summed residue
reduced_first = (refl, refl, refl)
