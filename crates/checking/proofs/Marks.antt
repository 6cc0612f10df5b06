-- The marks of a list: made place by place, and what they are at each place. Assumes nothing.
use mathlib.Core.Path.{◌≡◌, refl, sym, ap, ◌∙◌}
use mathlib.Core.Bool.{Bool, cond, ◌||◌}
use mathlib.Core.List.{List, [], ◌∷◌, ◌++◌}
use Prim.Native.Nat.{ℕ, ◌+◌, ◌<◌}
use native.Mathlib.Numerals.{add-one}
use native.Mathlib.Omega.{arith}
use borrow.Author.Tests.{eq-eqb, ne_eqb}
use lib.Dec.{eqb}
use lib.IntN.{ℤ, pos}
use lib.ListN.{length, take, get_or, set as update, replicate, length-set, length-replicate, get_or-replicate}
use lib.Seq.{take-suc, get_or-set_same, get_or-set_other}
use Rattle.std.proofs.Math.Bool.{or_assoc, or-false, or-true}
use Rattle.laws.proofs.Entries.{is_tabulate, get_or-tabulate, length-tabulate}
use Rattle.sets.specs.Numbers.{dimension, modulus}
use Rattle.vectors.specs.Places.{listed}
use Rattle.checking.specs.Checking.{marks}

abbrev pub mark : List ℕ → ℕ → ℤ
mark l k = cond (listed l k) (pos modulus) (pos 0)

pub length_marks : (l : List ℕ) → length (marks l) ≡ dimension
unfolding marks
length_marks l = length-tabulate (mark l) dimension

pub get_or_marks : (l : List ℕ) (k : ℕ) → k < dimension → get_or (marks l) k (pos 0) ≡ mark l k
unfolding marks
get_or_marks l k h = get_or-tabulate (mark l) dimension k (pos 0) h

-- ---- one place more
listed_more : (l : List ℕ) (i k : ℕ) → listed (l ++ (i ∷ [])) k ≡ listed l k || eqb i k
unfolding listed
listed_more [] i k = or-false (eqb i k)
listed_more (j ∷ l) i k = ap (λ (b : Bool). eqb j k || b) (listed_more l i k) ∙ sym (or_assoc (eqb j k) (listed l k) (eqb i k))

mark_here : (l : List ℕ) (i : ℕ) → mark (l ++ (i ∷ [])) i ≡ pos modulus
mark_here l i = rw (listed_more l i i, eq-eqb i i refl, or-true (listed l i))

mark_other : (l : List ℕ) (i k : ℕ) → (i ≡ k → ⊥) → mark (l ++ (i ∷ [])) k ≡ mark l k
mark_other l i k n = rw (listed_more l i k, ne_eqb i k n, or-false (listed l k))

at_place : (l : List ℕ) (i k : ℕ) → i < dimension → k < dimension → get_or (update (marks l) i (pos modulus)) k (pos 0) ≡ mark (l ++ (i ∷ [])) k
at_place l i k h j = grind (arith, get_or-set_same (marks l) i (pos modulus) (pos 0), get_or-set_other (marks l) i k (pos modulus) (pos 0), length_marks l, get_or_marks l k j, mark_here l i, mark_other l i k)

marks_more : (l : List ℕ) (i : ℕ) → i < dimension → update (marks l) i (pos modulus) ≡ marks (l ++ (i ∷ []))
unfolding marks
marks_more l i h =
    is_tabulate (mark (l ++ (i ∷ []))) dimension (pos 0) (update (marks l) i (pos modulus)) (length-set (marks l) i (pos modulus) ∙ length_marks l)
    (λ k j. at_place l i k h j)

-- ---- a loop over the list
pub marks_none : replicate dimension (pos 0) ≡ marks []
unfolding marks listed
marks_none = is_tabulate (mark []) dimension (pos 0) (replicate dimension (pos 0)) (length-replicate dimension (pos 0)) (λ k h. get_or-replicate dimension k (pos 0) (pos 0) h)

pub marks_next : (l : List ℕ) (j : ℕ) → j < length l → get_or l j 0 < dimension → update (marks (take j l)) (get_or l j 0) (pos modulus) ≡ marks (take (j + 1) l)
marks_next l j h p = marks_more (take j l) (get_or l j 0) p ∙ ap marks (sym (take-suc l j 0 h) ∙ ap (λ (n : ℕ). take n l) (sym (add-one j)))
