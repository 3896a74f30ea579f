pub mod RowPlaces
pub mod RowPlaceFields
pub mod PackagedOffsets
pub mod PackagedReading
pub mod RangeKeys
pub mod ReadStrings
