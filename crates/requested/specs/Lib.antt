pub mod RequestTerms
