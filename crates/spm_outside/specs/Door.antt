-- What the calls of a door leave, by their answer.
use Rattle.std.specs.Prelude.{◌≡◌, ℕ, List, [], ◌∷◌, ◌++◌, Option, IfSome, Result, Ok, Err, option_map}
use Rattle.spm_outside.specs.Peer.{PeerState}
use Rattle.spm_outside.specs.declared.fault.CallFault.{CallFault}

-- what a door tells: what each peer that came back tells, and the count of faults
pub record DoorState : Type 0 where
  pub served : Option (List PeerState)
  pub faults : ℕ

-- a peer that counted no fault and, where it tells, has taken and written nothing
pub record IsFresh (peer : PeerState) : Type 0 where
  pub taken : IfSome peer.taken (λ bytes. bytes ≡ [])
  pub written : IfSome peer.written (λ bytes. bytes ≡ [])
  pub faults : peer.faults ≡ 0

-- the peers so far, with this one where it came back
abbrev pub served_after : {T : Type 0} → Result T CallFault → PeerState → Option (List PeerState) → Option (List PeerState)
served_after (Ok answer) peer served = option_map (λ peers. peers ++ peer ∷ []) served
served_after (Err fault) peer served = served
