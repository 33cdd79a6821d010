pub mod KeyOrders
pub mod OrderLaws
pub mod Orders
pub mod PlaceLaws
pub mod PrefixLaws
