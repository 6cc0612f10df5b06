use Rattle.std.proofs.Common.{◌≡◌, map, ◌*◌, ◌≤◌, ◌++◌, length, take, drop}
use Rattle.byte_codes.specs.Bytes.{packed}
use Rattle.byte_codes.proofs.pack.Given as goal

abbrev pub invariant-loop-i : goal.invariant-loop-i
invariant-loop-i g l =
    let t = g.T.Number in
    (l.i ≤ length l.entries) × (l.out ≡ packed t.WIDTH (map t.code (take l.i l.entries)) ++ drop (t.WIDTH * l.i) l.initial.out)
