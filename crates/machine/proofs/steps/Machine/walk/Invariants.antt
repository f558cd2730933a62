use Rattle.std.proofs.Common.{◌≡◌, ◌+◌, ◌-◌, ◌*◌, ◌≤◌, length}
use Rattle.machine.specs.Handles.{Root}
use Rattle.reckoning.specs.Reckoning.{Reckoned, steps}
use Rattle.machine.specs.Reducing.{room_of}
use Rattle.machine.specs.Extents.{to_go}
use Rattle.machine.specs.Running.{OnTheWay}
use Rattle.machine.proofs.steps.Machine.walk.Given as goal
use Rattle.machine.specs.Places.{rule_of}

-- as many reductions as steps that are gone, and the run is on its way
abbrev pub invariant-loop-to : goal.invariant-loop-to
invariant-loop-to g l =
    let room = room_of (g.W.Store.whole l.fn.store) (g.W.Store.cost l.fn.store) in
    record {
      goes : (root : Root) (s : Reckoned) → OnTheWay (rule_of l.nodes (g.W.Store.base l.fn.store))
          (g.W.Store.lists l.fn.store) room (g.W.Store.room l.fn.store) root l.fn.self.table l.fn.from s →
          ((steps room (l.granted - l.left) s).count ≡ s.count + (l.granted - l.left)) ×
          OnTheWay (rule_of l.nodes (g.W.Store.base l.fn.store)) (g.W.Store.lists l.store) room
          (g.W.Store.room l.store) root l.self.table l.next (steps room (l.granted - l.left) s);
      few : l.left ≤ l.granted;
      count : l.self.count ≡ l.fn.self.count;
      still : l.granted ≡ 0 → l.store ≡ l.fn.store;
      base : g.W.Store.base l.store ≡ g.W.Store.base l.fn.store;
      whole : g.W.Store.whole l.store ≡ g.W.Store.whole l.fn.store;
      cost : g.W.Store.cost l.store ≡ g.W.Store.cost l.fn.store;
    }

-- for each step that is left more than is to be met before a reduction, and what is now to be met
abbrev pub decreases-loop-to : goal.decreases-loop-to
decreases-loop-to g l = l.left * (2 * (257 * length l.nodes) + 2) + to_go l.nodes l.self.table l.next
