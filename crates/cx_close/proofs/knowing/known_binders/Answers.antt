use Rattle.std.proofs.Common.{◌≡◌, ◌+◌, length, arith}
use Rattle.cx_close.specs.Knowing.{window}
use Rattle.cx_close.proofs.Binders.{begun-none, begun-more, begun-stops, begun-all}
use Rattle.cx_close.proofs.knowing.known_binders.Goals as goal

pub loop-k-init : goal.loop-k-init
loop-k-init c = begun-none c.args.env.now (window c.args.own c.args.s c.args.f.now c.args.start.now c.args.cells.now) c.args.known.now c.args.n c.with_all-values.result.items c.with_all-values.ensures

pub returns-in-None : goal.returns-in-None
returns-in-None c = begun-stops c.args.env.now (window c.args.own c.args.s c.args.f.now c.args.start.now c.args.cells.now) c.args.known.now c.args.n c.loop-k.values.items c.loop-k.k (omega arith) c.in-None.ensures c.loop-k.invariant

pub loop-k-preserved : goal.loop-k-preserved
loop-k-preserved c =
    rw c.push.ensures.items (begun-more c.args.env.now (window c.args.own c.args.s c.args.f.now c.args.start.now c.args.cells.now) c.args.known.now c.args.n c.loop-k.values.items c.loop-k.k c.in-Some.t (omega arith) c.in-Some.ensures c.loop-k.invariant)

pub returns : goal.returns
returns c =
    let e : c.loop-k.k ≡ length c.args.known.now + c.args.n = omega arith in
    begun-all c.args.env.now (window c.args.own c.args.s c.args.f.now c.args.start.now c.args.cells.now) c.args.known.now c.args.n c.loop-k.values.items c.loop-k.k e c.loop-k.invariant
