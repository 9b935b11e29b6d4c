pub mod FileType
pub mod Permissions
pub mod RawPermissions
pub mod Same
