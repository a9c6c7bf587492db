pub mod SixTapes
