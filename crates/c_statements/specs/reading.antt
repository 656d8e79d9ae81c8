pub mod SwitchBlocks
