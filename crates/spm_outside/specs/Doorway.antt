-- What a door in memory holds. It tells all of it.
use Rattle.std.specs.Prelude.{ℕ, List, Some, map}
use Rattle.spm_outside.specs.Door.{DoorState, IsFresh}
use Rattle.spm_outside.specs.Memory.{state_of_peer}
use Rattle.spm_outside.specs.Schedule.{Plan}
use Rattle.spm_outside.specs.declared.memory_peer.MemoryPeer.{MemoryPeer}

abbrev pub IsFreshPeer : MemoryPeer → Type 0
IsFreshPeer peer = IsFresh (state_of_peer peer)

pub record Doorway : Type 0 where
  -- the peers that come next, and those that came back
  pub waiting : List MemoryPeer
  pub served : List MemoryPeer
  pub faults : ℕ
  pub plan : Plan

abbrev pub waiting_at_door : Doorway → List MemoryPeer
waiting_at_door door = door.waiting

-- all that it tells
abbrev pub state_of_door : Doorway → DoorState
state_of_door door = record { served = Some (map state_of_peer door.served); faults = door.faults }

-- which of the door's calls fail
abbrev pub plan_of_door : Doorway → Plan
plan_of_door door = door.plan
