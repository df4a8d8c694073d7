pub mod RewoundControl
pub mod Mixed
pub mod Rewound
pub mod Laws
