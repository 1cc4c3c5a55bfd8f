-- Made: an array made by a closure, place by place.
pub mod Made
