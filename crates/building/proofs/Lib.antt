pub mod BuildingLaws
