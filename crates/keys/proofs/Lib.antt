pub mod KeyLaws
pub mod NamesLemmas
pub mod NumbersLemmas
pub mod Runs
