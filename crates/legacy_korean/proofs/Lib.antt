-- Each coder keeps to its codec.
pub mod EucKrPlaces
pub mod EucKrWalk
