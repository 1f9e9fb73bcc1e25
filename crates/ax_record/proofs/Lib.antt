mod Rows
pub mod TreeOf
pub mod Preorder
pub mod RoleEquality
pub mod Equalities
pub mod TakenOver
pub mod Walking
pub mod FewKids
pub mod Past
pub mod Lists
pub mod Climbs
pub mod Found
pub mod Joined
pub mod Climbed
