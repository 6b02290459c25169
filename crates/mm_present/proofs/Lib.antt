mod JoinRowLemmas
mod JoinCacheLemmas
mod GrowLemmas
mod CoordinateLemmas
mod RangeLemmas
pub mod TreeRows
mod NodeLemmas
mod StackLemmas
pub mod CompareLemmas
mod RankLemmas
mod ProductLemmas
mod DualityLemmas
mod TailLemmas
mod PairLemmas
mod AccountLemmas
mod LeastLemmas
mod LeafLemmas
mod FaultLemmas
mod WalkLemmas
mod RootLemmas
mod ImageLemmas
mod ImageWalkLemmas
mod WholeSpaceLemmas
