pub mod Lists
pub mod ReadBack
