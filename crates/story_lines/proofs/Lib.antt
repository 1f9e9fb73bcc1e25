pub mod KeyLists
pub mod Gathered
pub mod AttributeLists
pub mod RunLists
pub mod RectBounds
pub mod MarkerLists
pub mod OwnKeys
