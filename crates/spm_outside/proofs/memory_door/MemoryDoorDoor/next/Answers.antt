use Rattle.std.proofs.lemmas.List.Elements.{All-tail}
use Rattle.spm_outside.specs.Doorway.{IsFreshPeer}
use Rattle.spm_outside.proofs.memory_door.MemoryDoorDoor.next.Goals as goal

pub invariant_of-self : goal.invariant_of-self
invariant_of-self c =
    All-tail IsFreshPeer c.in-Some.peer c.pop_front.new.self.items (rw c.in-Some.ensures.items at c.self.invariant)
