mod Common
mod Getters
mod LimitLemmas
mod TableLemmas
