pub mod Membership
pub mod Below
pub mod Places
pub mod AttributeNames
pub mod CutCharacters
pub mod Flattening
pub mod FirstTokens
pub mod Lookups
pub mod SameLookups
pub mod Filled
pub mod IdParts
pub mod Marked
pub mod Repeats
pub mod TakingOut
pub mod Rising
pub mod Shapes
pub mod Joins
pub mod Splicing
pub mod Reached
pub mod KidsLaws
pub mod Objects
pub mod Rectangles
pub mod TextRoles
pub mod SaidLaws
pub mod Quotes
mod Tables
mod Rows
mod NameRows
