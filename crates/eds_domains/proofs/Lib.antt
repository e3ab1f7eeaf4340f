pub mod DomainFacts
mod EndFacts
