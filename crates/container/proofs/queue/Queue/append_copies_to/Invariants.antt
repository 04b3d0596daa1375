use Rattle.std.proofs.Common.{◌≡◌, ◌++◌, take}
use Rattle.std.specs.VecDeque.Iter.{deque_iter_rest}
use Rattle.container.specs.Queue.{entries, bound}
use Rattle.container.proofs.queue.Queue.append_copies_to.Given as goal

-- what is there and what is still to come have the same front, and the bound stays
abbrev pub invariant-loop-x : goal.invariant-loop-x
invariant-loop-x g l =
    (take (bound l.out) (entries l.out ++ deque_iter_rest l.x-iterator) ≡ take (bound l.initial.out) (entries l.initial.out ++ entries l.self))
    × (bound l.out ≡ bound l.initial.out)
