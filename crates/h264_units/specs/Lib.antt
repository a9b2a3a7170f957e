pub mod Stream
pub mod Splitting
pub mod Scanned
pub mod UnitTypes
pub mod UnitHeader
