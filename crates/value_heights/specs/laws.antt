pub mod ValueHeights
