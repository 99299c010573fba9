pub mod PhotonsTurn
