pub mod GeneratedSources
