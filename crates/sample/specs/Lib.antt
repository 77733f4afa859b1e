pub mod Sample
pub mod SampleFacts
