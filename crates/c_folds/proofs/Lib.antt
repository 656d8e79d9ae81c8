pub mod ConvertedValues
