pub mod PlaceLemmas
pub mod BookLemmas
pub mod CallLemmas
pub mod FileLemmas
pub mod PutLemmas
pub mod ExchangeLemmas
pub mod PeerLemmas
