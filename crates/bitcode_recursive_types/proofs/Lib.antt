pub mod SearchTreeLemmas
