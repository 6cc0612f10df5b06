-- Demand 3. Assumes nothing.
use mathlib.Core.Path.{◌≡◌, refl, sym, ap, ap₂, ◌∙◌}
use mathlib.Core.Bool.{Bool, true, false, not, cond}
use mathlib.Core.List.{List, ◌++◌, map}
use Prim.Native.Nat.{ℕ, ◌<◌, ◌≤◌}
use native.Mathlib.Omega.{arith}
use borrow.Author.Tests.{eq-eqb, le-leb}
use lib.IntN.{ℤ, pos, ◌-ℤ◌, ◌*ℤ◌}
use lib.ListN.{length, get_or, drop, length-map}
use lib.Seq.{ext_get_or}
use Rattle.laws.specs.Integers.{residue}
use Rattle.laws.specs.Lists.{every, zip_with}
use Rattle.laws.proofs.Congruence.{Cong}
use Rattle.laws.proofs.Loops.{is_same}
use Rattle.laws.proofs.Entries.{length-zip_with, get_or-zip_with, get_or-map}
use Rattle.sets.specs.declared.Set.{Set}
use Rattle.std.specs.Prelude.{Some}
use Rattle.sets.specs.Numbers.{dimension, modulus, twice_modulus, asked_of}
use Rattle.answers.specs.Outcomes.{Outcome, Done, number_of, filled}
use Rattle.answers.proofs.Calls.{zero_is}
use Rattle.polynomials.specs.Product.{one}
use Rattle.rounding.specs.Rounding.{upper, dagger, restored}
use Rattle.vectors.specs.Places.{proper_list, listed}
use Rattle.vectors.proofs.Rising.{proper_count, proper_rises, proper_places}
use Rattle.limits.specs.LengthRule.{length_rule}
use Rattle.vectors.specs.Vectors.{sized}
use Rattle.keys.specs.Key.{is_residue, second}
use Rattle.keys.proofs.Ranges.{a_residues}
use Rattle.commitment.specs.Commitment.{are_masks, sums, committed, tested, commitment}
use Rattle.commitment.proofs.Sums.{length_sums}
use Rattle.vectors.specs.Pairs.{Pair}
use Rattle.choices.specs.Choices.{added_if}
use Rattle.choices.proofs.Bound.{choices_sized, choices_bound}
use Rattle.choices.proofs.Pairs.{Sized}
use Rattle.choices.proofs.Parity.{choices_odd, choices_even}
use Rattle.choices.proofs.Product.{choices_carries}
use Rattle.masking.specs.Masking.{masked, daggers}
use Rattle.signing.specs.Response.{Lent, secret, responded, response_for, responding, response}
use Rattle.signing.proofs.Numbered.{key_done, unnumbered_of}
use Rattle.signing.proofs.Ways.{are_sized}
use Rattle.checking.specs.Checking.{claim, marks, rebuilt, rebuild, comparison}
use Rattle.checking.proofs.Marks.{length_marks, get_or_marks}
use Rattle.record_forms.specs.declared.Form.{Form}
use Rattle.record_forms.specs.Forms.{total_of}
use Rattle.records.specs.Signatures.{signature, record_of, refusal_for}
use Rattle.records.specs.Writer.{put_to, recorded_to, writing_for, offered, writing_of}
use Rattle.promises.specs.Demands.{ResponseLength, GivenOutIsAccepted, ReachesTheDraw, Demand3}
use Rattle.promises.proofs.Keys.{key_carries, key_sized, passing, second_parity}
use Rattle.promises.proofs.Sums.{sums_at}
use Rattle.promises.proofs.Daggers.{restored_dagger}
use Rattle.promises.proofs.Signatures.{chosen_of, answered_of, Admitted, given_out}

-- ---- the first sentence
pub response_length : ResponseLength
response_length set s c known passes proper =
    let key = passing set s c known passes in
    rw (← proper_count s c.list proper) (choices_bound (secret c) (key_sized c.f c.g key.long_f key.long_g) c.list)

-- ---- the vectors agree
module _ (s : Set) (c : Lent) (before : Admitted s c) where
  abbrev key : Pair
  key = secret c

  abbrev l : List ℕ
  l = c.list

  abbrev v : Pair
  v = chosen_of c

  abbrev z : Pair
  z = answered_of c

  abbrev u : List ℕ
  u = sums c.a c.y1 c.y2

  key_512 : Sized key
  key_512 = key_sized c.f c.g before.key.long_f before.key.long_g

  v_512 : Sized v
  v_512 = choices_sized key key_512 l

  pub z_first : length z.first ≡ dimension
  unfolding masked
  z_first = length-zip_with (added_if (not c.sign)) c.y1 v.first (before.long_y1 ∙ sym v_512.first) ∙ before.long_y1

  pub z_second : length z.second ≡ dimension
  unfolding masked
  z_second = length-zip_with (added_if (not c.sign)) c.y2 v.second (before.long_y2 ∙ sym v_512.second) ∙ before.long_y2

  u_512 : length u ≡ dimension
  u_512 = length_sums c.a c.y1 c.y2 before.long_y2

  pub daggers_512 : length (daggers s u z.second) ≡ dimension
  unfolding daggers
  daggers_512 = length-zip_with (dagger s) u z.second (u_512 ∙ sym z_second) ∙ u_512

  -- c: 1 at the listed places and 0 elsewhere, the parity of v2; 12289 at each listed place is q c
  abbrev mark : ℕ → ℤ
  mark i = cond (listed l i) (pos 1) (pos 0)

  v_parity : (i : ℕ) → i < dimension → Cong 2 (get_or v.second i (pos 0)) (mark i)
  v_parity i h = pick (listed l i) refl
    where
      parity : (n : ℕ) → Cong 2 (get_or (second c.g) n (pos 0)) (get_or one n (pos 0))
      parity = second_parity c.g before.key.long_g

      pick : (b : Bool) → listed l i ≡ b → Cong 2 (get_or v.second i (pos 0)) (cond b (pos 1) (pos 0))
      pick true e = choices_odd key key_512 l (proper_places s l before.list) parity i h (proper_rises s l before.list) e
      pick false e = choices_even key key_512 l (proper_places s l before.list) parity i h e

  mark_is : (i : ℕ) → i < dimension → get_or (marks l) i (pos 0) ≡ pos modulus *ℤ mark i
  mark_is i h = get_or_marks l i h ∙ pick (listed l i)
    where
      pick : (b : Bool) → cond b (pos modulus) (pos 0) ≡ pos modulus *ℤ cond b (pos 1) (pos 0)
      pick true = refl
      pick false = refl

  -- the checker's sum at one place
  sum_at : (i : ℕ) → i < dimension
      → get_or (sums c.a z.first (marks l)) i 0 ≡ residue twice_modulus (pos (get_or u i 0) -ℤ get_or z.second i (pos 0))
  unfolding masked
  sum_at i h =
      sums_at i h c.a before.key.long_a (not c.sign) c.y1 c.y2 v.first v.second before.long_y1 before.long_y2 v_512.first v_512.second
      (choices_carries key key_512 l (proper_places s l before.list) c.a before.key.long_a (key_carries s c.f c.g c.a before.key.proper))
      (marks l) (mark i) (length_marks l) (mark_is i h) (v_parity i h)

  -- z2 dagger there
  pub dagger_at : (i : ℕ) → i < dimension → get_or (daggers s u z.second) i (pos 0) ≡ dagger s (get_or u i 0) (get_or z.second i (pos 0))
  unfolding daggers
  dagger_at i h = get_or-zip_with (dagger s) u z.second i 0 (pos 0) (pos 0) (omega (arith, u_512)) (omega (arith, z_second))

  -- and what the checker restores
  restored_at : (i : ℕ) → i < dimension
      → restored s (get_or (sums c.a z.first (marks l)) i 0) (get_or (daggers s u z.second) i (pos 0)) ≡ upper s (get_or u i 0)
  restored_at i h = ap₂ (restored s) (sum_at i h) (dagger_at i h) ∙ restored_dagger s (get_or u i 0) (get_or z.second i (pos 0))

  -- what is rebuilt from z1 and z2 dagger is what was committed to
  pub rebuilt_committed : rebuilt s c.a (claim z.first (daggers s u z.second) l) ≡ committed s c.a c.y1 c.y2
  unfolding rebuilt committed
  rebuilt_committed =
      let w = sums c.a z.first (marks l) in
      let w-512 : length w ≡ dimension = length_sums c.a z.first (marks l) (length_marks l) in
      let long : length (zip_with (restored s) w (daggers s u z.second)) ≡ dimension =
      length-zip_with (restored s) w (daggers s u z.second) (w-512 ∙ sym daggers_512) ∙ w-512 in
      ext_get_or 0 (zip_with (restored s) w (daggers s u z.second)) (map (upper s) u) (long ∙ sym (length-map u (upper s) ∙ u_512))
      (λ i h.
      let inside : i < dimension = omega arith in
      get_or-zip_with (restored s) w (daggers s u z.second) i 0 (pos 0) 0 (omega arith) (omega (arith, daggers_512))
      ∙ restored_at i inside ∙ sym (get_or-map (upper s) u i 0 0 (omega (arith, u_512))))

-- ---- the calls
pub sized_yes : {A : Type 0} (x : List A) → length x ≡ dimension → sized x ≡ true
sized_yes x e = eq-eqb (length x) dimension e

module _ (set : ℕ) (s : Set) (known : asked_of set ≡ Some s) (a : List ℕ) (la : length a ≡ dimension) (residues : every is_residue a ≡ true) where
  -- the commitment, where nothing is to be refused
  commitment_done : (y1 y2 : List ℤ) (out : List ℕ) → length y1 ≡ dimension → length y2 ≡ dimension → length out ≡ dimension → are_masks y1 y2 ≡ true
      → commitment set a y1 y2 out ≡ filled Done (committed s a y1 y2)
  unfolding commitment tested
  commitment_done y1 y2 out ly1 ly2 lo masks =
      rw (known, sized_yes a la, sized_yes y1 ly1, sized_yes y2 ly2, sized_yes out lo, residues, masks)

  -- the rebuild, where nothing is to be refused
  rebuild_done : (z1 z2 : List ℤ) (l out : List ℕ) → length z1 ≡ dimension → length z2 ≡ dimension → length out ≡ dimension
      → proper_list s l ≡ true → length_rule s z1 z2 ≡ Done → rebuild set a (claim z1 z2 l) out ≡ filled Done (rebuilt s a (claim z1 z2 l))
  unfolding rebuild
  rebuild_done z1 z2 l out lz1 lz2 lo proper rule =
      rw (known, sized_yes a la, sized_yes z1 lz1, sized_yes z2 lz2, sized_yes out lo, residues, proper, rule)

-- the writer, where nothing is to be refused
writes_done : (form : Form) (set key : ℕ) (s : Set) (z1 z2 : List ℤ) (l out : List ℕ) → asked_of set ≡ Some s → length z1 ≡ dimension → length z2 ≡ dimension
    → proper_list s l ≡ true → length_rule s z1 z2 ≡ Done → total_of form s ≤ length out
    → writing_of form (offered set key z1 z2 l) out ≡ filled Done (record_of form (signature s key z1 z2 l) ++ drop (total_of form s) out)
unfolding writing_of writing_for recorded_to put_to refusal_for
writes_done form set key s z1 z2 l out known l1 l2 proper rule room = rw (known, eq-eqb _ _ l1, eq-eqb _ _ l2, proper, rule, le-leb _ _ room)

-- ---- the second sentence
pub given_out_is_accepted : GivenOutIsAccepted
given_out_is_accepted set key c o count back z1 z2 before old e zero lb lo =
    let done : response set key c ≡ responded Done count back z1 z2 = e ∙ ap (λ (p : Outcome). responded p count back z1 z2) (zero_is o zero) in
    let given = given_out c count z1 z2 set key back done in
    let s = given.0 in
    let known = given.1 in
    let passed = given.2 in
    let signature = given.3 in
    let residues = a_residues c.f c.g c.a passed.key.ranges in
    let lz1 = ap length signature.first ∙ z_first s c passed in
    let lz2 = ap length signature.dagger ∙ daggers_512 s c passed in (
      s,
      known,
      (Done, commitment_done set s known c.a passed.key.long_a residues c.y1 c.y2 before passed.long_y1 passed.long_y2 lb passed.masks, refl),
      (
        Done,
        rebuild_done set s known c.a passed.key.long_a residues z1 z2 c.list old lz1 lz2 lo passed.list signature.rule
            ∙ ap (filled Done) (ap₂ (λ x y. rebuilt s c.a (claim x y c.list)) signature.first signature.dagger ∙ rebuilt_committed s c passed),
        refl,
      ),
    )

-- the writer makes its record, with the key number that was lent
pub given_out_is_written : (form : Form) (set key : ℕ) (s : Set) (c : Lent) (o : Outcome) (count back : ℕ) (z1 z2 : List ℤ) (out : List ℕ)
    → response set key c ≡ responded o count back z1 z2
    → number_of o ≡ 0 → asked_of set ≡ Some s → total_of form s ≤ length out
    → writing_of form (offered set back z1 z2 c.list) out ≡ filled Done (record_of form (signature s key z1 z2 c.list) ++ drop (total_of form s) out)
given_out_is_written form set key s c o count back z1 z2 out e zero known room =
    let given = given_out c count z1 z2 set key back (e ∙ ap (λ (p : Outcome). responded p count back z1 z2) (zero_is o zero)) in
    let number : back ≡ key = (unnumbered_of set key c o count back z1 z2 e).1 ∙ key_done o key zero in
    let own : given.0 ≡ s = let asked = given.1 in cc in
    let passed = given.2 in
    let sent = given.3 in
    rw number
    (writes_done form set key s z1 z2 c.list out known (ap length sent.first ∙ z_first given.0 c passed) (ap length sent.dagger ∙ daggers_512 given.0 c passed)
    (rw own at passed.list) (rw own at sent.rule) room)

-- ---- the premises of both
pub reaches_the_draw : ReachesTheDraw
unfolding response responding response_for
reaches_the_draw set key' s c h b =
    let key = passing set s c h.asked h.key in
    let long =
    are_sized c
    (((key.long_f, key.long_g, key.long_a, b.long_thresholds), (h.long_y1, h.long_y2, b.long_z1, b.long_z2))) in
    rw (h.asked, long, key.ranges, h.masks, h.list, key.proper)

-- ---- both sentences
-- a proper list and the same list
pub same_list : (set : ℕ) (s : Set) (l : List ℕ) → asked_of set ≡ Some s → proper_list s l ≡ true → number_of (comparison set l l) ≡ 0
unfolding comparison
same_list set s l known proper = rw (known, proper, is_same l)

pub demand_3 : Demand3
demand_3 set s c before old h b lb lo = (
  response_length set s c h.asked h.key h.list,
  λ key o count back z1 z2 e zero.
      let accepted = given_out_is_accepted set key c o count back z1 z2 before old e zero lb lo in
      let own : accepted.0 ≡ s = the_set accepted.0 s (sym accepted.1 ∙ h.asked) in
      (same_list set s c.list h.asked h.list, rw own at accepted.2, rw own at accepted.3),
)
  where
    the_set : (m n : Set) → Some m ≡ Some n → m ≡ n
    the_set m n e = cc
