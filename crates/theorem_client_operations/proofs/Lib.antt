pub mod Endings
pub mod Onward
pub mod Commanding
pub mod SeenMoments
pub mod SeenReads
pub mod AtHand
pub mod Completing
