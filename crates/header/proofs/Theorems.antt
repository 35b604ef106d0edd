pub mod ValueByMask
