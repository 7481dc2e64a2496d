pub mod CommentShape
pub mod DeskShape
pub mod DirectoryShape
pub mod ExprShape
pub mod NodeShape
pub mod PeerShape
pub mod PolygonShape
pub mod SearchTreeShape
