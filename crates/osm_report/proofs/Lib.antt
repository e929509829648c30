pub mod PrintableLemmas
