-- The form of a challenge list (01, "Response"): exactly kappa places, strictly rising, each below 512.
use Rattle.std.specs.Prelude.{Bool, true, false, ◌&&◌, ◌||◌, List, [], ◌∷◌, ℕ, eqb, ltb, length}
use Rattle.laws.specs.Lists.{every}
use Rattle.sets.specs.declared.Set.{Set}
use Rattle.sets.specs.Numbers.{dimension, kappa_of}

abbrev pub is_place : ℕ → Bool
is_place i = ltb i dimension

unfoldable pub rising : List ℕ → Bool
rising [] = true
rising (i ∷ []) = true
rising (i ∷ j ∷ l) = ltb i j && rising (j ∷ l)

unfoldable pub proper_list : Set → List ℕ → Bool
proper_list s l = eqb (length l) (kappa_of s) && (rising l && every is_place l)

-- whether place k is listed
unfoldable pub listed : List ℕ → ℕ → Bool
listed [] k = false
listed (i ∷ l) k = eqb i k || listed l k
