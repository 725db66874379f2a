pub mod PrintedWhy
