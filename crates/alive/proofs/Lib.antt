-- Laws of the matches still alive, as the code keeps them.
pub mod Alive
