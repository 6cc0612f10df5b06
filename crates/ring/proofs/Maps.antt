-- A loop that rewrites each entry of a vector by a function of another vector's entry, or of the entry itself. Assumes nothing.
use mathlib.Core.Path.{◌≡◌, sym, ◌∙◌}
use mathlib.Core.List.{List, map}
use Prim.Native.Nat.{ℕ, ◌+◌, ◌<◌}
use lib.ListN.{length, get_or, set as update, length-map, get_or-map}
use Rattle.laws.proofs.Loops.{Rewritten, more}

pub mapped : {A : Type 0} (f : A → ℕ) (d : A) (l : List A) (s : List ℕ) {i : ℕ} {now : List ℕ}
    → Rewritten s (map f l) i now → length l ≡ length s → i < length s → (x : ℕ) → x ≡ f (get_or l i d) → Rewritten s (map f l) (i + 1) (update now i x)
mapped f d l s {i} so same h x e = more s (map f l) (length-map l f ∙ same) so (f d) x h (e ∙ sym (get_or-map f l i d))
