-- What the objects in memory hold. Each tells all of it.
use Rattle.std.specs.Prelude.{Some, drop, take}
use Rattle.spm_outside.specs.Desk.{DeskState}
use Rattle.spm_outside.specs.Link.{LinkState}
use Rattle.spm_outside.specs.Names.{FileMap}
use Rattle.spm_outside.specs.Peer.{PeerState}
use Rattle.spm_outside.specs.Schedule.{Plan}
use Rattle.spm_outside.specs.Sink.{SinkState}
use Rattle.spm_outside.specs.declared.book_link.BookLink.{BookLink}
use Rattle.spm_outside.specs.declared.memory_desk.MemoryDesk.{MemoryDesk}
use Rattle.spm_outside.specs.declared.memory_peer.MemoryPeer.{MemoryPeer}
use Rattle.spm_outside.specs.declared.memory_sink.MemorySink.{MemorySink}

-- the files of a desk, by their names
abbrev pub files_of_desk : MemoryDesk → FileMap
files_of_desk desk = desk.files

-- all that it tells
abbrev pub state_of_desk : MemoryDesk → DeskState
state_of_desk desk = record { files = Some (files_of_desk desk); failed = Some desk.failed; faults = desk.faults }

-- which of the desk's calls fail
abbrev pub plan_of_desk : MemoryDesk → Plan
plan_of_desk desk = desk.schedule

-- the bytes that a sink took, in their order, and the number of calls that failed, up to the greatest u64
abbrev pub state_of_sink : MemorySink → SinkState
state_of_sink sink = record { written = Some sink.written.items; faults = sink.faults }

-- which of the sink's calls fail
abbrev pub plan_of_sink : MemorySink → Plan
plan_of_sink sink = sink.schedule

-- what a link tells: the book that it was lent, the calls made in their order, how many bytes of the last response were read, those that
-- are left, and the number of opens and reads that failed, up to the greatest u64
abbrev pub state_of_link : BookLink → LinkState
state_of_link link = record {
  book = Some link.book.now;
  calls = Some link.calls.items;
  taken = Some link.taken;
  rest = Some (drop link.taken link.response.now);
  faults = link.faults;
}

-- which of the link's opens and reads fail
abbrev pub plan_of_link : BookLink → Plan
plan_of_link link = link.schedule

-- what a peer tells: the bytes taken so far, those that are left, those written in their order, and the number of reads and puts that
-- failed, up to the greatest u64
abbrev pub state_of_peer : MemoryPeer → PeerState
state_of_peer peer = record {
  taken = Some (take peer.taken peer.bytes.items);
  rest = Some (drop peer.taken peer.bytes.items);
  written = Some peer.written.items;
  faults = peer.faults;
}

-- which of the peer's reads and puts fail
abbrev pub plan_of_peer : MemoryPeer → Plan
plan_of_peer peer = peer.schedule
