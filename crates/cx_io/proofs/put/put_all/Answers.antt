use Rattle.std.proofs.Common.{◌≡◌, ◌++◌, take, drop, option_map, rules, arith}
use Rattle.cx_io.proofs.Puts.{put_more}
use Rattle.cx_io.proofs.put.put_all.Goals as goal

pub loop-at-preserved : goal.loop-at-preserved
loop-at-preserved g c =
    let back = c.split_at.ensures.back in
    let first : g.K.Sink.written c.loop-at.sink ≡ option_map (λ w. w ++ take c.loop-at.at c.args.bytes.now) (g.K.Sink.written c.args.sink.now) = c.loop-at.invariant.1 in
    let second : g.K.Sink.written c.put.new.self ≡ option_map (λ w. w ++ take c.in-Ok.n (drop c.loop-at.at c.args.bytes.now)) (g.K.Sink.written c.loop-at.sink) = search rules in
    (omega (arith, c.in-Ok.ensures.bounds), put_more _ _ _ _ c.loop-at.at c.in-Ok.n first second, omega arith, search rules)
