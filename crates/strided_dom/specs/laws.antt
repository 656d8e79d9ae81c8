-- What a ghost member must cite: the fields of a set are found again from the set.
pub mod FieldsLaws
