use mathlib.Core.Path.{◌≡◌, ap, ◌∙◌}
use mathlib.Core.Bool.{true, false}
use Rattle.keys.specs.Key.{in_range, second, relation, right_counts}
use Rattle.keys.proofs.Ranges.{g_small}
use Rattle.keys.proofs.Second.{second_within}
use Rattle.keys.proofs.Counts.{proper_by_relation, improper_by_counts}
use Rattle.keys.proofs.examine.Goals as goal

pub returns-then-not-right_counts : goal.returns-then-not-right_counts
returns-then-not-right_counts c =
    let a = c.args in
    let ranged : in_range a.f.now a.g.now a.a.now ≡ true = cc in
    let counts : right_counts a.s a.f.now a.g.now ≡ false = cc in
    rw (ranged, improper_by_counts a.s a.f.now a.g.now a.a.now counts)

pub make_second-requires : goal.make_second-requires
make_second-requires c =
    let a = c.args in
    let ranged : in_range a.f.now a.g.now a.a.now ≡ true = cc in
    rw c.widen-2.ensures (g_small a.f.now a.g.now a.a.now ranged)

pub holds_relation-requires-clause-spectrum_value : goal.holds_relation-requires-clause-spectrum_value
holds_relation-requires-clause-spectrum_value c =
    let a = c.args in
    let ranged : in_range a.f.now a.g.now a.a.now ≡ true = cc in
    let made : c.make_second.new.g ≡ second a.g.now = c.make_second.ensures ∙ ap second c.widen-2.ensures in
    (c.transform_key.ensures, rw made (second_within a.g.now (g_small a.f.now a.g.now a.a.now ranged)))

pub returns-then-not-holds_relation : goal.returns-then-not-holds_relation
returns-then-not-holds_relation c =
    let a = c.args in
    let ranged : in_range a.f.now a.g.now a.a.now ≡ true = cc in
    let counts : right_counts a.s a.f.now a.g.now ≡ true = cc in
    let related : relation a.a.now a.f.now (second a.g.now) ≡ false = cc in
    rw (ranged, proper_by_relation a.s a.f.now a.g.now a.a.now ranged counts, related)

pub returns : goal.returns
returns c =
    let a = c.args in
    let ranged : in_range a.f.now a.g.now a.a.now ≡ true = cc in
    let counts : right_counts a.s a.f.now a.g.now ≡ true = cc in
    let related : relation a.a.now a.f.now (second a.g.now) ≡ true = cc in
    rw (ranged, proper_by_relation a.s a.f.now a.g.now a.a.now ranged counts, related)
