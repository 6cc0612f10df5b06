use Rattle.records.proofs.Bits.{below, few, room, packs}
use Rattle.records.proofs.pack_bits.Goals as goal

pub pack-requires : goal.pack-requires
pack-requires g c =
    let t = g.T.Whole in
    let z = c.args.z.now in
    let bits = c.bits_all.new.out in (
      c.requires.0,
      c.requires.1,
      below t.value t.zero c.args.width z bits c.requires.2 c.bits_all.ensures c.requires.3,
      few t.value t.zero c.args.width z bits c.requires.2 c.bits_all.ensures,
      room t.value t.zero c.args.width z bits c.requires.2 c.bits_all.ensures _ c.requires.4,
    )

pub returns : goal.returns
returns g c =
    let t = g.T.Whole in
    packs t.value t.zero c.args.width c.args.z.now c.bits_all.new.out c.requires.2 c.bits_all.ensures _ c.pack.ensures
