pub mod Produced
