use Rattle.std.proofs.Common.{length, ◌-◌, ◌≡◌, ◌≤◌, Some, take, ◌++◌, option_map, IfSome}
use Rattle.cx_io.proofs.put.put_all.Given as goal

abbrev pub invariant-loop-at : goal.invariant-loop-at
invariant-loop-at g l =
    (l.at ≤ length l.bytes)
    × (g.K.Sink.written l.sink ≡ option_map (λ w. w ++ take l.at l.bytes) (g.K.Sink.written l.fn.sink))
    × (g.K.Sink.faults l.fn.sink ≤ g.K.Sink.faults l.sink)
    × IfSome (g.K.Sink.room l.fn.sink) (λ r. length l.bytes ≤ r → (g.K.Sink.room l.sink ≡ Some (r - l.at)) × (g.K.Sink.faults l.sink ≡ g.K.Sink.faults l.fn.sink))

abbrev pub decreases-loop-at : goal.decreases-loop-at
decreases-loop-at g l = length l.bytes - l.at
