use mathlib.Core.Path.{◌≡◌, ap₂, ◌∙◌}
use mathlib.Core.Bool.{true, false}
use mathlib.Core.List.{List}
use native.Mathlib.Omega.{arith}
use lib.IntN.{ℤ}
use Rattle.sets.specs.declared.Set.{Set}
use Rattle.std.specs.Prelude.{Err}
use Rattle.answers.specs.declared.Refusal.TheVariants.{CoefficientOutside, MaskOutside, ImproperList, CountsWrong}
use Rattle.vectors.specs.Pairs.{pair}
use Rattle.vectors.specs.Places.{proper_list}
use Rattle.vectors.proofs.Ranges.{within_wider}
use Rattle.keys.specs.Key.{in_range, second, right_counts}
use Rattle.keys.proofs.Ranges.{f_small, g_small}
use Rattle.keys.proofs.Second.{second_within}
use Rattle.keys.proofs.Counts.{counts_short}
use Rattle.commitment.specs.Commitment.{are_masks}
use Rattle.signing.specs.Response.{Lent, secret, early, tested}
use Rattle.signing.specs.Requests.{lent_measured, signed_with}
use Rattle.signing.proofs.Ways.{refusal_at, signed_with_lem, counts_refused}
use Rattle.signing.proofs.test.Goals as goal

-- the tests in their order
module _ (s : Set) (c : Lent) where
  refused_range : in_range c.f c.g c.a ≡ false → early c (Err CoefficientOutside) ≡ tested s c
  refused_range e = rw e

  module _ (range : in_range c.f c.g c.a ≡ true) where
    refused_masks : are_masks c.y1 c.y2 ≡ false → early c (Err MaskOutside) ≡ tested s c
    refused_masks e = rw (range, e)

    module _ (masks : are_masks c.y1 c.y2 ≡ true) where
      refused_list : proper_list s c.list ≡ false → early c (Err ImproperList) ≡ tested s c
      refused_list e = rw (range, masks, e)

      module _ (list : proper_list s c.list ≡ true) where
        refused_counts : right_counts s c.f c.g ≡ false → early c (Err CountsWrong) ≡ tested s c
        refused_counts e = rw (range, masks, list) (counts_refused s c _ e)

        goes_on : right_counts s c.f c.g ≡ true → signed_with s c (secret c) ≡ tested s c
        goes_on e = rw (range, masks, list) (signed_with_lem s c range e)

pub returns-then-not-in_range : goal.returns-then-not-in_range
returns-then-not-in_range c =
    let a = c.args in
    let l = lent_measured a.lent a.z1.now a.z2.now in
    let range : in_range a.lent.f.now a.lent.g.now a.lent.a.now ≡ false = cc in
    refusal_at c.into.result CoefficientOutside a.z1.now a.z2.now c.into.ensures
    ∙ refused_range a.s l range

pub returns-then-not-are_masks : goal.returns-then-not-are_masks
returns-then-not-are_masks c =
    let a = c.args in
    let l = lent_measured a.lent a.z1.now a.z2.now in
    let range : in_range a.lent.f.now a.lent.g.now a.lent.a.now ≡ true = cc in
    let masks : are_masks a.lent.y1.now a.lent.y2.now ≡ false = cc in
    refusal_at c.into-then-not-are_masks.result MaskOutside a.z1.now a.z2.now c.into-then-not-are_masks.ensures
    ∙ refused_masks a.s l range masks

pub returns-then-not-is_proper : goal.returns-then-not-is_proper
returns-then-not-is_proper c =
    let a = c.args in
    let l = lent_measured a.lent a.z1.now a.z2.now in
    let range : in_range a.lent.f.now a.lent.g.now a.lent.a.now ≡ true = cc in
    let masks : are_masks a.lent.y1.now a.lent.y2.now ≡ true = cc in
    let list : proper_list a.s a.lent.list.now ≡ false = cc in
    refusal_at c.into-then-not-is_proper.result ImproperList a.z1.now a.z2.now c.into-then-not-is_proper.ensures
    ∙ refused_list a.s l range masks list

pub returns-then-not-right_counts : goal.returns-then-not-right_counts
returns-then-not-right_counts c =
    let a = c.args in
    let l = lent_measured a.lent a.z1.now a.z2.now in
    let range : in_range a.lent.f.now a.lent.g.now a.lent.a.now ≡ true = cc in
    let masks : are_masks a.lent.y1.now a.lent.y2.now ≡ true = cc in
    let list : proper_list a.s a.lent.list.now ≡ true = cc in
    let counts : right_counts a.s a.lent.f.now a.lent.g.now ≡ false = cc in
    refusal_at c.into-then-not-right_counts.result CountsWrong a.z1.now a.z2.now c.into-then-not-right_counts.ensures
    ∙ refused_counts a.s l range masks list counts

pub make_second-requires : goal.make_second-requires
make_second-requires c =
    let a = c.args in
    let range : in_range a.lent.f.now a.lent.g.now a.lent.a.now ≡ true = cc in
    rw c.widen-2.ensures (g_small a.lent.f.now a.lent.g.now a.lent.a.now range)

pub sign_with-requires-clause-s1_value : goal.sign_with-requires-clause-s1_value
sign_with-requires-clause-s1_value c =
    let a = c.args in
    let range : in_range a.lent.f.now a.lent.g.now a.lent.a.now ≡ true = cc in
    let masks : are_masks a.lent.y1.now a.lent.y2.now ≡ true = cc in
    let list : proper_list a.s a.lent.list.now ≡ true = cc in
    let made : c.make_second.new.g ≡ second a.lent.g.now = cc in (
      rw c.widen.ensures (within_wider 2 5 a.lent.f.now (omega arith) (f_small a.lent.f.now a.lent.g.now a.lent.a.now range)),
      rw made (second_within a.lent.g.now (g_small a.lent.f.now a.lent.g.now a.lent.a.now range)),
      masks,
      list,
    )

pub sign_with-requires-clause-s2_bound : goal.sign_with-requires-clause-s2_bound
sign_with-requires-clause-s2_bound c =
    let a = c.args in
    let range : in_range a.lent.f.now a.lent.g.now a.lent.a.now ≡ true = cc in
    let counts : right_counts a.s a.lent.f.now a.lent.g.now ≡ true = cc in
    let made : c.make_second.new.g ≡ second a.lent.g.now = cc in
    rw (c.widen.ensures, made)
    (counts_short a.s a.lent.f.now a.lent.g.now (f_small a.lent.f.now a.lent.g.now a.lent.a.now range) (g_small a.lent.f.now a.lent.g.now a.lent.a.now range) counts)

pub returns : goal.returns
returns c =
    let a = c.args in
    let l = lent_measured a.lent a.z1.now a.z2.now in
    let range : in_range a.lent.f.now a.lent.g.now a.lent.a.now ≡ true = cc in
    let masks : are_masks a.lent.y1.now a.lent.y2.now ≡ true = cc in
    let list : proper_list a.s a.lent.list.now ≡ true = cc in
    let counts : right_counts a.s a.lent.f.now a.lent.g.now ≡ true = cc in
    let made : c.make_second.new.g ≡ second a.lent.g.now = cc in
    c.sign_with.ensures ∙ ap₂ (λ (x y : List ℤ). signed_with a.s l (pair x y)) c.widen.ensures made
    ∙ goes_on a.s l range masks list counts
