-- Products modulo x^n - w: their bounds, and that a remainder modulo x^h - w of a product is the product of the remainders.
-- Assumes nothing.
use mathlib.Core.Path.{◌≡◌, refl, ap, ap₂, sym, ◌∙◌}
use mathlib.Core.List.{List, [], ◌∷◌, ◌++◌, map, append_assoc, append-nil}
use Prim.Native.Nat.{ℕ, zero, suc, ◌+◌, ◌-◌, ◌<◌}
use native.Mathlib.Nat.{suc_inj, suc-ne-zero}
use native.Mathlib.Omega.{arith}
use lib.ListN.{length, take, drop, get_or, replicate, length-append, length-drop, length-replicate, drop_of_length-le, take-append-drop, replicate-append-replicate}
use lib.Seq.{length-take-le, take-suc, take_all, take_at, drop_at}
use Rattle.laws.specs.Lists.{zip_with}
use Rattle.laws.proofs.Entries.{length-zip_with, zip_with-append}
use Rattle.laws.proofs.Pointwise.{take-zip_with, drop-zip_with, zip_with-replicate, zip_with_medial}
use Rattle.polynomials.specs.Field.{by_rows, add, mul, mix, turn, product_modulo}
use Rattle.polynomials.proofs.Rows.{length_turned, turned_last, turned_more, turned_zip_with, length-by_rows}
use Rattle.ring.specs.Transform.{Within, plus, low, high}
use Rattle.ring.proofs.Field as F
use Rattle.ring.proofs.Field.{field}
use Rattle.ring.proofs.Zips.{within_zip_with, within_zeros, shared, joined_later, zip_with-map, zip_with_alike}

-- ---- bounds

pub within_product : (w : ℕ) (f g : List ℕ) → Within 12288 (product_modulo w f g)
unfolding by_rows
within_product w [] g = within_zeros 12288 (length g)
within_product w (a ∷ f) g = within_zip_with 12288 (mix a) (λ y z. F.add-le (mul a y) z) g (turn w (product_modulo w f g))

-- ---- turns

turns : ℕ → ℕ → List ℕ → List ℕ
turns w zero h = h
turns w (suc j) h = turn w (turns w j h)

-- x^j times h: its last j coefficients come first, times w
turns_are : (w j r : ℕ) (h : List ℕ) → length h ≡ r + j → turns w j h ≡ map (mul w) (drop r h) ++ take r h
unfolding turns
turns_are w zero r h e = ap₂ (λ (x y : List ℕ). map (mul w) x ++ y) (sym (drop_of_length-le h {i = r} (omega arith))) (sym (take_all r h (omega arith)))
turns_are w (suc j) r h e = ap (turn w) (turns_are w j (suc r) h (omega arith)) ∙ sym (turned_more (mul w) 0 r h (omega arith))

-- x^n is w
turns_all : (w : ℕ) (h : List ℕ) → turns w (length h) h ≡ map (mul w) h
turns_all w h = turns_are w (length h) 0 h (omega arith) ∙ append-nil (map (mul w) h)

length_turns : (w j : ℕ) (h : List ℕ) → 0 < length h → length (turns w j h) ≡ length h
unfolding turns
length_turns w zero h p = refl
length_turns w (suc j) h p =
    let ih = length_turns w j h p in
    length_turned (mul w) 0 (turns w j h) (omega arith) ∙ ih

-- ---- the first factor in two parts

zeros_add : (p : List ℕ) → Within 12288 p → zip_with add (replicate (length p) 0) p ≡ p
unfolding zip_with
zeros_add [] h = refl
zeros_add (x ∷ p) h = ap₂ ◌∷◌ (F.zero-add x (h 0)) (zeros_add p (λ i. h (suc i)))

longer : (w : ℕ) (f f' g : List ℕ) → 0 < length g
    → product_modulo w (f ++ f') g ≡ zip_with add (product_modulo w f g) (turns w (length f) (product_modulo w f' g))
unfolding by_rows turns
longer w [] f' g p =
    sym (ap (λ (n : ℕ). zip_with add (replicate n 0) (product_modulo w f' g)) (sym (length-by_rows (mul w) 0 mix f' g p)) ∙ zeros_add (product_modulo w f' g) (within_product w f' g))
longer w (a ∷ f) f' g p =
    let P = product_modulo w f g in
    let Q = product_modulo w f' g in
    let T = turns w (length f) Q in
    let lp = length-by_rows (mul w) 0 mix f g p in
    let lq = length-by_rows (mul w) 0 mix f' g p in
    let lt = length_turns w (length f) Q (omega arith) in
    ap (λ (l : List ℕ). zip_with (mix a) g (turn w l)) (longer w f f' g p)
    ∙ ap (zip_with (mix a) g) (turned_zip_with (mul w) 0 add (λ x y. F.mul-add w x y) P T (omega arith) (omega arith))
    ∙ joined_later (mix a) add (mix a) add (λ y z u. sym (F.add_assoc (mul a y) z u)) g (turn w P) (turn w T)

times_plus : (w x y : ℕ) → mul w (plus w x y) ≡ plus w (mul w x) (mul w y)
times_plus w x y = simp field

mix_plus : (w a b y z u : ℕ) → plus w (mix a y z) (mix b y u) ≡ mix (plus w a b) y (plus w z u)
mix_plus w a b y z u = simp field

plus_zeros : (w n : ℕ) → zip_with (plus w) (replicate n 0) (replicate n 0) ≡ replicate n 0
plus_zeros w n = zip_with-replicate (plus w) n 0 0 ∙ ap (replicate n) (ap (add 0) (F.mul-zero w) ∙ F.zero-add 0 (omega arith))

product_plus : (w : ℕ) (f f' g : List ℕ) → length f ≡ length f' → 0 < length g
    → product_modulo w (zip_with (plus w) f f') g ≡ zip_with (plus w) (product_modulo w f g) (product_modulo w f' g)
unfolding by_rows zip_with
product_plus w [] [] g e p = sym (plus_zeros w (length g))
product_plus w [] (b ∷ f') g e p = absurd (suc-ne-zero (length f') (sym e))
product_plus w (a ∷ f) [] g e p = absurd (suc-ne-zero (length f) e)
product_plus w (a ∷ f) (b ∷ f') g e p =
    let P = product_modulo w f g in
    let Q = product_modulo w f' g in
    let lp = length-by_rows (mul w) 0 mix f g p in
    let lq = length-by_rows (mul w) 0 mix f' g p in
    ap (λ (l : List ℕ). zip_with (mix (plus w a b)) g (turn w l)) (product_plus w f f' g (suc_inj e) p)
    ∙ ap (zip_with (mix (plus w a b)) g) (turned_zip_with (mul w) 0 (plus w) (times_plus w) P Q (omega arith) (omega arith))
    ∙ sym (shared (plus w) (mix a) (mix b) (mix (plus w a b)) (mix_plus w a b) g (turn w P) (turn w Q))

-- the first factor may be reduced
first_reduced : (w h : ℕ) (f g : List ℕ) → length f ≡ h + h → length g ≡ h → 0 < h → product_modulo w f g ≡ product_modulo w (low h w f) g
unfolding low
first_reduced w h f g ef eg p =
    let A = take h f in
    let B = drop h f in
    let la : length A ≡ h = length-take-le h f (omega arith) in
    let lb : length B ≡ h = omega (arith, length-drop h f) in
    let P = product_modulo w A g in
    let Q = product_modulo w B g in
    let lq = length-by_rows (mul w) 0 mix B g (omega arith) in
    ap (λ (l : List ℕ). product_modulo w l g) (sym (take-append-drop h f))
    ∙ longer w A B g (omega arith)
    ∙ ap (λ (n : ℕ). zip_with add P (turns w n Q)) (omega arith)
    ∙ ap (zip_with add P) (turns_all w Q)
    ∙ zip_with-map add (mul w) P Q
    ∙ sym (product_plus w A B g (omega arith) (omega arith))

-- ---- remainders of a product

low_append : (w : ℕ) (x y : List ℕ) (h : ℕ) → length x ≡ h → low h w (x ++ y) ≡ zip_with (plus w) x y
unfolding low
low_append w x y h e = ap₂ (zip_with (plus w)) (take_at x y h e) (drop_at x y h e)

low_mix : (w h a : ℕ) (g t : List ℕ) → low h w (zip_with (mix a) g t) ≡ zip_with (mix a) (low h w g) (low h w t)
unfolding low
low_mix w h a g t =
    ap₂ (zip_with (plus w)) (take-zip_with (mix a) h g t) (drop-zip_with (mix a) h g t)
    ∙ zip_with_medial (plus w) (mix a) (mixes w a) (take h g) (take h t) (drop h g) (drop h t)
  where
    mixes : (w a x y z u : ℕ) → plus w (mix a x y) (mix a z u) ≡ mix a (plus w x z) (plus w y u)
    mixes w a x y z u = simp field

turn_head : (w a b : ℕ) → plus w (mul (mul w w) b) a ≡ mul w (plus w a b)
turn_head w a b = simp field

low_turn_parts : (w a b : ℕ) (x y : List ℕ) (h : ℕ) → length x + 1 ≡ h → length y + 1 ≡ h
    → low h w (turn (mul w w) ((x ++ (a ∷ [])) ++ (y ++ (b ∷ [])))) ≡ turn w (low h w ((x ++ (a ∷ [])) ++ (y ++ (b ∷ []))))
unfolding zip_with
low_turn_parts w a b x y h ex ey =
    let W = mul w w in
    ap (λ (l : List ℕ). low h w (turn W l)) (sym (append_assoc (x ++ (a ∷ [])) y (b ∷ [])))
    ∙ ap (low h w) (turned_last (mul W) 0 b ((x ++ (a ∷ [])) ++ y) ∙ ap (λ (l : List ℕ). mul W b ∷ l) (append_assoc x (a ∷ []) y))
    ∙ low_append w (mul W b ∷ x) (a ∷ y) h (omega arith)
    ∙ ap (λ (n : ℕ). n ∷ zip_with (plus w) x y) (turn_head w a b)
    ∙ sym (turned_last (mul w) 0 (plus w a b) (zip_with (plus w) x y))
    ∙ ap (turn w) (sym (low_append w (x ++ (a ∷ [])) (y ++ (b ∷ [])) h (omega (arith, length-append x (a ∷ [])))
    ∙ zip_with-append (plus w) x (a ∷ []) y (b ∷ []) (omega arith)))

ends : (l : List ℕ) (n : ℕ) → length l ≡ n + 1 → l ≡ take n l ++ (get_or l n 0 ∷ [])
ends l n e = sym (take_all (suc n) l (omega arith)) ∙ take-suc l n 0 (omega arith)

low_turn : (w h : ℕ) (p : List ℕ) → length p ≡ h + h → 0 < h → low h w (turn (mul w w) p) ≡ turn w (low h w p)
low_turn w h p e pos =
    let n = h - 1 in
    let A = take h p in
    let B = drop h p in
    let la : length A ≡ h = length-take-le h p (omega arith) in
    let lb : length B ≡ h = omega (arith, length-drop h p) in
    let whole : p ≡ (take n A ++ (get_or A n 0 ∷ [])) ++ (take n B ++ (get_or B n 0 ∷ []))
    = sym (take-append-drop h p) ∙ ap₂ ◌++◌ (ends A n (omega arith)) (ends B n (omega arith)) in
    ap (λ (l : List ℕ). low h w (turn (mul w w) l)) whole
    ∙ low_turn_parts w (get_or A n 0) (get_or B n 0) (take n A) (take n B) h (omega (arith, length-take-le n A (omega arith))) (omega (arith, length-take-le n B (omega arith)))
    ∙ ap (λ (l : List ℕ). turn w (low h w l)) (sym whole)

pub length_low : (w h : ℕ) (g : List ℕ) → length g ≡ h + h → length (low h w g) ≡ h
unfolding low
length_low w h g e =
    let la = length-take-le h g (omega arith) in
    length-zip_with (plus w) (take h g) (drop h g) (omega (arith, la, length-drop h g)) ∙ la

low_product : (w h : ℕ) (f g : List ℕ) → length g ≡ h + h → 0 < h → low h w (product_modulo (mul w w) f g) ≡ product_modulo w f (low h w g)
unfolding by_rows
low_product w h [] g e p =
    ap (λ (n : ℕ). low h w (replicate n 0)) e
    ∙ ap (low h w) (sym (replicate-append-replicate h h 0))
    ∙ low_append w (replicate h 0) (replicate h 0) h (length-replicate h 0)
    ∙ plus_zeros w h
    ∙ ap (λ (n : ℕ). replicate n 0) (sym (length_low w h g e))
low_product w h (a ∷ f) g e p =
    let W = mul w w in
    low_mix w h a g (turn W (product_modulo W f g))
    ∙ ap (zip_with (mix a) (low h w g))
    (low_turn w h (product_modulo W f g) (length-by_rows (mul W) 0 mix f g (omega arith) ∙ e) p ∙ ap (turn w) (low_product w h f g e p))

-- the product of two remainders modulo x^h - w is that of the product modulo x^(2h) - w^2
pub remainder_product : (w h : ℕ) (f g : List ℕ) → length f ≡ h + h → length g ≡ h + h → 0 < h
    → product_modulo w (low h w f) (low h w g) ≡ low h w (product_modulo (mul w w) f g)
remainder_product w h f g ef eg p =
    sym (low_product w h f g eg p ∙ first_reduced w h f (low h w g) ef (length_low w h g eg) p)

-- modulo x^h + w is modulo x^h - (-w)
pub high_low : (w h : ℕ) (f : List ℕ) → high h w f ≡ low h (mul 12288 w) f
unfolding low high
high_low w h f = zip_with_alike (λ x y. ap (add x) (sym (F.mul_assoc 12288 w y))) (take h f) (drop h f)
