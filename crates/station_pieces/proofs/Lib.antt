pub mod Piecing
