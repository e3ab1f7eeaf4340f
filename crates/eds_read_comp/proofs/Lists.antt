-- What holds of each item of a list.
pub use Rattle.eds_generic.proofs.Lists.{append-none, map-none, flat-none, all-apart, all-joined, all-of, all-mapped, all-unmapped}
